pub mod PortLaws
pub mod RowLaws
pub mod TickLaws
