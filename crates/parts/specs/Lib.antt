pub mod Kept
pub mod Reader
pub mod Lent
pub mod Front
pub mod Joined
pub mod JoinedLent
pub mod OneAnswer
