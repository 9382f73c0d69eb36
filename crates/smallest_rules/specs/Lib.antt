pub mod Call
pub mod State
pub mod FewRadii
