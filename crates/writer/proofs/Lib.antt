pub mod SectionLaws
pub mod HeaderRow
pub mod RefusalLaws
pub mod PutLaws
pub mod WrittenLaws
pub mod Wiring
pub mod Unique
