pub mod Judgement
pub mod Verified
pub mod VerdictText
pub mod Refusal
pub mod Outcomes
pub mod VerdictAnswer
