mod Lists
mod LoadedLemmas
mod FrameLemmas
mod NumberLemmas
mod MonitorLemmas
