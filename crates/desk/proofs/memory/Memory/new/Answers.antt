use Rattle.std.proofs.Common.{◌≡◌, ◌∷◌, map, replicate, refl, ap, ◌∙◌}
use Rattle.desk.proofs.Lists.{map_replicate}
use Rattle.search.specs.State.{view as set_view}
use Rattle.sheet.specs.Candidates.{row_of}
use Rattle.weight.specs.Layers.{root_place, root_worth}
use Rattle.weight.specs.Worth.{zeros}
use Rattle.desk.proofs.memory.Memory.new.Goals as goal

pub returns : goal.returns
returns g c =
    let f = g.K.Kind.worth in
    let p = g.K.Kind.places in
    let nothing : f c.nothing-nothing.result ≡ zeros p = c.nothing-nothing.ensures in
    let row : row_of f c.new.result ≡ record { worth = zeros p; heads = replicate 40 0; from = 1; banned = 0 } = rw (c.new.ensures.0, c.new.ensures.1, c.new.ensures.2, c.new.ensures.3, nothing) refl in
    let node : set_view f c.new-2.result ≡ record { members = 0; from = 0; to = 0; value = root_place 0 ∷ zeros p } = rw nothing at c.new-2.ensures in
    let merge : set_view f c.new-3.result ≡ record { members = 0; from = 0; to = 0; value = root_place 0 ∷ zeros p } = rw nothing at c.new-3.ensures in
    record {
      weights = ap (map f) c.in_ok-filled.ensures.items ∙ (map_replicate f 1640 c.nothing-nothing.result ∙ ap (replicate 1640) nothing);
      sets = c.in_ok-vec.ensures.items_if_clones_equal (λ _ same. same);
      candidates = ap (map (row_of f)) c.in_ok-filled-2.ensures.items ∙ (map_replicate (row_of f) 51 c.new.result ∙ ap (replicate 51) row);
      nodes = ap (map (set_view f)) c.in_ok-filled-3.ensures.items ∙ (map_replicate (set_view f) 41 c.new-2.result ∙ ap (replicate 41) node);
      merges = ap (map (set_view f)) c.in_ok-filled-4.ensures.items ∙ (map_replicate (set_view f) 39 c.new-3.result ∙ ap (replicate 39) merge);
      potentials = ap (map (root_worth f)) c.in_ok-filled-5.ensures.items ∙ (map_replicate (root_worth f) 41 c.nothing.result ∙ ap (replicate 41) c.nothing.ensures);
    }
