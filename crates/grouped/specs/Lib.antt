pub mod Queues
pub mod QueuesLemmas
