-- Names as `Name::is_lawful` in `src/name.rt` cites them.
pub use Rattle.program.specs.NameLaws.{same_name}
