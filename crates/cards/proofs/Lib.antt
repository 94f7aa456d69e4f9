pub mod Order
pub mod Sets
