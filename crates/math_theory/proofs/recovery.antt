pub mod FilledItems
pub mod Fitting
pub mod Recovery
pub mod CarriedRecovery
pub mod RecoveredColumns
