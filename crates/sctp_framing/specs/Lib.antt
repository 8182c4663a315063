pub use Rattle.sctp_model.specs.messages.Framing
pub mod SkipForms
