-- The laws of the search call.
pub mod SearchCalls
