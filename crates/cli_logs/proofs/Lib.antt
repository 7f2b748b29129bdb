mod PassLemmas
mod ListLemmas
