pub mod OneSetting
pub mod Short
pub mod Room
pub mod FirstLine
pub mod Named
pub mod FaultTexts
pub mod Unix
pub mod Printed
