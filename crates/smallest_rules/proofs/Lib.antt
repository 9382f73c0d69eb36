pub mod SmallestCalls
pub mod FewRadii
