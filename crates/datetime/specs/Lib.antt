pub use Rattle.datetime_wall.specs.Wall
pub use Rattle.datetime_types.specs.Texts
pub use Rattle.datetime_types.specs.Unix
pub use Rattle.datetime_calls.specs.Replies
pub mod Laws
