-- The words that the other files take from the library, from the expressions and from the code.
pub use Rattle.std.specs.Option.{is_some as option_is_some}
pub use Rattle.expressions.specs.Expression.{Expression}
pub use Rattle.expressions.specs.Value.{Store}
unfoldable pub use Rattle.expressions.specs.Value.{int_value, truth_value}
pub use Rattle.expressions.specs.Reads.{Reads}
pub use Rattle.rules.specs.declared.Place.{Place}
pub use Rattle.rules.specs.declared.Place.TheVariants.{Line, End}
pub use Rattle.rules.specs.declared.Standing.{Standing}
pub use Rattle.rules.specs.declared.Standing.TheVariants.{Absent, Holding, At}
pub use Rattle.rules.specs.declared.Kind.{Kind}
pub use Rattle.rules.specs.declared.Kind.TheVariants.{Internal, Outgoing, Incoming}
pub use Rattle.rules.specs.declared.Answer.{Answer}
pub use Rattle.rules.specs.declared.Answer.TheVariants.{Halted, Moved, Slept, Passed, Ended, Finished, Waits, Stuck, Taken, Held}
pub use Rattle.rules.specs.declared.Refusal.{Refusal}
pub use Rattle.rules.specs.declared.Refusal.TheVariants.{NoProgram, NoLink, LinkHolds, NoOutput, NoRule}
pub use Rattle.faults.specs.declared.Layer.TheVariants.{Host}
pub use Rattle.faults.specs.declared.Fault.{Fault}
