pub mod Account
pub mod Calls
pub mod Order
pub mod Settled
