pub mod ConditionLaws
pub mod Gathering
pub mod TurnLaws
