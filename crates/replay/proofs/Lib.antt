mod LoadLemmas
mod RunLemmas
