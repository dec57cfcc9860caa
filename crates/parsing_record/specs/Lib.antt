pub use Rattle.parsing_components.specs.Record
pub use Rattle.parsing_components.specs.Parts
pub use Rattle.parsing_components.specs.Meaning
pub use Rattle.parsing_components.specs.Reads
pub mod Tally
pub use Rattle.parsing_components.specs.Whole
pub use Rattle.parsing_components.specs.Node
pub use Rattle.parsing_components.specs.Prefix
