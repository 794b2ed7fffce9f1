pub mod CallLaws
pub mod LeastLaws
pub mod Worked
