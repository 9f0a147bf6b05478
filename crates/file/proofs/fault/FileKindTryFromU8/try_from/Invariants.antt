use Rattle.std.proofs.Common.{◌≡◌, drop}
use Rattle.file.proofs.fault.FileKindTryFromU8.try_from.Given as goal
use Rattle.file.specs.Frame.{kind_among, kind_numbered}
use Rattle.file.specs.Kinds.{kinds}

-- the kinds still to come tell the number's kind
abbrev pub invariant-loop-kind : goal.invariant-loop-kind
invariant-loop-kind l = (l.kind-items ≡ kinds) × (kind_numbered l.number ≡ kind_among (drop l.kind-index kinds) l.number)
