pub mod Dues
pub mod Ends
pub mod Runs
pub mod Served
pub mod Ports
pub mod Exchanges
pub mod Hears
pub mod Serving
