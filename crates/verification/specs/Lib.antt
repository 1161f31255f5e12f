pub mod Proof
pub mod Checked
pub mod Spelled
pub mod Faults
pub mod FaultLaws
pub mod Held
