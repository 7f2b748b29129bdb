mod NumberLemmas
mod TableLemmas
