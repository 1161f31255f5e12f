pub mod PrintedStatus
