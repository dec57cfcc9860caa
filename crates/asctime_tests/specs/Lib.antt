pub mod Asctime
