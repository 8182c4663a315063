pub mod CommaLemmas
