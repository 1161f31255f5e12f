-- What the trials of a campaign have in common.
pub use Rattle.program.specs.Campaigns.{Plan, IsPlan, plan_of}
