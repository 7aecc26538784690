pub mod QueueLaws
pub mod Answer
pub mod Diagnosis
pub mod KeptBy
