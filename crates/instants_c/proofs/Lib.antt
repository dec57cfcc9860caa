pub mod Feeds
pub mod Kit
pub mod Statuses
pub mod Words
