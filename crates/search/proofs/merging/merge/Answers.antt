use Rattle.std.proofs.Common.{◌≡◌, ℕ, ◌+◌, ◌^◌, ◌<◌, ◌≤◌, ◌&&◌, None, List, length, take, sym, refl, subst, arith, rules}
use Rattle.std.proofs.lemmas.List.{length-take-le, take_more_set}
use Rattle.weight.specs.Worth.{Within}
use Rattle.arborescence.specs.Search.{leads}
use Rattle.word_set.specs.Bits.{in_set}
use Rattle.weight.specs.Layers.{root_worth}
use Rattle.search.specs.Family.{rep_of}
use Rattle.search.specs.State.{sets_of}
use Rattle.search.proofs.Steps.{known, new_added, state_after}
use Rattle.search.proofs.merging.merge.Goals as goal

room_for : {X : Type 0} (made n : ℕ) (merges : List X) → made + 1 ≤ n → n ≤ length merges + 1 → length (take made merges) + 2 ≤ n → (made + 2 ≤ n) × (made < length merges)
room_for made n merges some long room = let e = length-take-le made merges (omega arith) in omega arith

pub ring_members-members-requires : goal.ring_members-members-requires
ring_members-members-requires g c =
    let k = known g.K.Kind.worth g.K.Kind.places c.args.graph.now c.requires.sound c.args.nodes.now (take c.args.made c.args.merges.now) c.args.potentials.now c.requires.state in
    record { word = c.requires.word; laid = k.laid; ring = c.requires.ring }

pub total-all-requires : goal.total-all-requires
total-all-requires g c =
    let k = known g.K.Kind.worth g.K.Kind.places c.args.graph.now c.requires.sound c.args.nodes.now (take c.args.made c.args.merges.now) c.args.potentials.now c.requires.state in
    record { laid = k.laid; small = k.value }

pub raise-requires : goal.raise-requires
raise-requires g c =
    let W = g.K.Kind in
    let k = known W.worth W.places c.args.graph.now c.requires.sound c.args.nodes.now (take c.args.made c.args.merges.now) c.args.potentials.now c.requires.state in
    record { room = c.requires.space.potentials_in; values = k.value; added = k.added; total = subst (Within (2 ^ 32)) (sym c.total-all.ensures) (k.all (λ ℓ. leads (rep_of (sets_of W.worth (take c.args.made c.args.merges.now))) ℓ && in_set c.ring_members-members.result ℓ)) }

pub best_into-requires-clause-added : goal.best_into-requires-clause-added
best_into-requires-clause-added g c =
    let W = g.K.Kind in
    new_added W.worth W.places c.args.graph.now c.requires.sound c.args.nodes.now (take c.args.made c.args.merges.now) c.args.potentials.now c.requires.state W.sized c.requires.space.potentials_in c.ring_members-members.result c.ring_members-members.ensures.ring (root_worth W.worth c.total-all.result) c.raise.new.potentials c.total-all.ensures c.raise.ensures

pub returns-in_err-arc : goal.returns-in_err-arc
returns-in_err-arc g c =
    let k = known g.K.Kind.worth g.K.Kind.places c.args.graph.now c.requires.sound c.args.nodes.now (take c.args.made c.args.merges.now) c.args.potentials.now c.requires.state in
    let room = room_for c.args.made c.args.graph.now.words c.args.merges.now c.requires.made c.requires.space.merges_in (k.room c.ring_members-members.result c.ring_members-members.ensures.ring) in
    let e : c.from_residual.result ≡ None = search rules in
    record { room = room.0; merged = rw e (k.none c.ring_members-members.result c.ring_members-members.ensures.ring c.in_err-arc.ensures) }

pub offset_bounds-merges-made : goal.offset_bounds-merges-made
offset_bounds-merges-made g c =
    let k = known g.K.Kind.worth g.K.Kind.places c.args.graph.now c.requires.sound c.args.nodes.now (take c.args.made c.args.merges.now) c.args.potentials.now c.requires.state in
    let room = room_for c.args.made c.args.graph.now.words c.args.merges.now c.requires.made c.requires.space.merges_in (k.room c.ring_members-members.result c.ring_members-members.ensures.ring) in
    search (rules, room.1)

pub bounds-merges-made : goal.bounds-merges-made
bounds-merges-made g c =
    let k = known g.K.Kind.worth g.K.Kind.places c.args.graph.now c.requires.sound c.args.nodes.now (take c.args.made c.args.merges.now) c.args.potentials.now c.requires.state in
    (room_for c.args.made c.args.graph.now.words c.args.merges.now c.requires.made c.requires.space.merges_in (k.room c.ring_members-members.result c.ring_members-members.ensures.ring)).1

pub returns : goal.returns
returns g c =
    let W = g.K.Kind in
    let k = known W.worth W.places c.args.graph.now c.requires.sound c.args.nodes.now (take c.args.made c.args.merges.now) c.args.potentials.now c.requires.state in
    let room = room_for c.args.made c.args.graph.now.words c.args.merges.now c.requires.made c.requires.space.merges_in (k.room c.ring_members-members.result c.ring_members-members.ensures.ring) in
    record { room = room.0; merged = state_after W.worth W.places c.args.graph.now c.requires.sound c.args.nodes.now (take c.args.made c.args.merges.now) c.args.potentials.now c.requires.state W.sized c.requires.space.potentials_in c.ring_members-members.result c.ring_members-members.ensures.ring (root_worth W.worth c.total-all.result) c.raise.new.potentials c.total-all.ensures c.raise.ensures (c.args.word, c.ring_members-members.ensures.here, c.requires.first) _ _ (take_more_set c.args.merges.now c.args.made _ room.1) refl c.in_ok-arc.ensures }
