pub mod ReferenceTests
pub mod ReferenceLaws
pub mod PortLaws
pub mod RouteLaws
pub mod TestsAre
pub mod LinkLaws
