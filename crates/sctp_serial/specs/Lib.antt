pub use Rattle.sctp_model.specs.numbers.Serial
