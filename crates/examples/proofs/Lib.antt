pub mod DealtSecrets
pub mod JoinedWords
pub mod RecoveredRows
