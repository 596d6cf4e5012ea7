-- Tables of names, as the tactics of this crate name their laws.
pub use Rattle.msc_base.proofs.NameFacts.{with_old, with_new}
