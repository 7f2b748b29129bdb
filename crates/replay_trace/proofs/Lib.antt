pub mod TraceLemmas
