mod CommandLemmas
mod FieldLemmas
mod KeyLemmas
mod LineLemmas
mod RunLemmas
mod SessionLemmas
mod SetUpLemmas
