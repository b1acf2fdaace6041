pub mod Ends
pub mod Fronts
pub mod Headings
pub mod Requests
pub mod Runs
