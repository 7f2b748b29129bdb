mod RunLemmas
mod WorkLemmas
mod ReplayLemmas
mod ReplayLaws
mod ServeLemmas
mod EachLemmas
mod TraceLemmas
