pub mod OutputFor
pub mod Numbers
pub mod Printed
