pub mod Queues
pub mod Fifo
