use Rattle.std.proofs.Common.{[], ◌++◌, take, IfSome, ◌≡◌, rules}
use Rattle.std.specs.Prelude.{option_map}
use Rattle.filing.proofs.Inputs.{read_in}
use Rattle.filing.proofs.read_file.Goals as goal

pub returns : goal.returns
returns g c =
    let file = c.read_to_end.new.buf.items in
    let limit = c.take.result.limit in
    let from : IfSome (option_map (take limit) (g.R.Read.remaining c.args.input)) (λ bytes. file ≡ [] ++ bytes) = search rules in
    read_in (g.R.Read.remaining c.args.input) file limit c.take.ensures.limit from
