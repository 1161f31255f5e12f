pub mod Printed
pub mod Given
