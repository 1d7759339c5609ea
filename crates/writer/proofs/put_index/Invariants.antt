use Rattle.fields.proofs.Base.{◌-◌}
use Rattle.entries.specs.declared.Kind.TheVariants.{Listing}
use Rattle.source.specs.Input.{given}
use Rattle.pack.specs.Levels.{level}
use Rattle.writer.proofs.Indexing.{Indexing}
use Rattle.writer.proofs.put_index.Given as goal

abbrev pub invariant-loop-end : goal.invariant-loop-end
invariant-loop-end l = Indexing l.content l.input l.starts l.n l.m (level l.n Listing (given l.content l.input)) l.initial.out l.out l.base l.end

abbrev pub decreases-loop-end : goal.decreases-loop-end
decreases-loop-end l = 4096 - l.end
