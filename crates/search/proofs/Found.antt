-- What was found, over other words for the same arcs
use Rattle.std.proofs.Common.{◌≡◌, ℕ, suc, ◌+◌, ◌<◌, ◌≤◌, Bool, true, List, [], ◌∷◌, length, get_or, Some, None, Ok, Err, Option, Result, sym, refl, ap, ◌∙◌, subst, arith, ◌&&◌, not, take, set, length-set}
use Rattle.refusal.specs.declared.Refusal.{Refusal}
use Rattle.weight.specs.Range.{Range, entry_in}
use Rattle.weight.specs.Worth.{Worth, plus}
use Rattle.arborescence.specs.Heads.{TreeOver, worth_from, rooted}
use Rattle.tree.specs.Chains.{Word, head_of}
use Rattle.word_set.specs.Bits.{in_set}
use Rattle.search.proofs.Barring.{searched_same, barring_set}
use Rattle.search.proofs.Choosing.{found_once}
use Rattle.search.specs.Answer.{Searched, barring}
use Rattle.search.specs.Arcs.{allowed, Entries}
use Rattle.search.specs.Choice.{Chosen, Finds, Settles, SearchesAlike}

-- trees over arcs that agree on the line
pub over_like : (n : ℕ) (a b : ℕ → ℕ → Bool) → ((h d : ℕ) → Word n d → h ≤ n → a h d ≡ b h d) → (t : List ℕ) → TreeOver n a t → TreeOver n b t
over_like n a b same t over = record { shape = over.shape; standing = λ w v. sym (same (head_of t w) w v (over.shape.shape.in_line w v)) ∙ over.standing w v }

from_like : (f g : ℕ → ℕ → Worth) (w : ℕ) (hs : List ℕ) → ((i : ℕ) → i < length hs → f (get_or hs i 0) (w + i) ≡ g (get_or hs i 0) (w + i)) → worth_from f w hs ≡ worth_from g w hs
from_like f g w [] same = refl
from_like f g w (h ∷ hs) same =
    let here : f h w ≡ g h w = let e : w + 0 ≡ w = omega arith in subst (λ (v : ℕ). f h v ≡ g h v) e (same 0 (omega arith)) in
    let rest : worth_from f (suc w) hs ≡ worth_from g (suc w) hs =
    from_like f g (suc w) hs (λ i l. let e : w + suc i ≡ suc w + i = omega arith in subst (λ (v : ℕ). f (get_or hs i 0) v ≡ g (get_or hs i 0) v) e (same (suc i) (omega arith))) in
    ap (λ (x : Worth). plus x (worth_from f (suc w) hs)) here ∙ ap (plus (g h w)) rest

-- a tree is worth the same by weights that agree on its arcs
pub worth_like : (n : ℕ) (s : ℕ → ℕ → Bool) (f g : ℕ → ℕ → Worth) (t : List ℕ) → TreeOver n s t → ((h d : ℕ) → Word n d → h ≤ n → s h d ≡ true → f h d ≡ g h d) → worth_from f 1 t ≡ worth_from g 1 t
worth_like n s f g t over same =
    let sized = over.shape.shape.sized in
    from_like f g 1 t (λ i l.
    let v : Word n (suc i) = (omega arith, omega arith) in
    let e : suc i ≡ 1 + i = omega arith in
    subst (λ (w : ℕ). f (get_or t i 0) w ≡ g (get_or t i 0) w) e (same (head_of t (suc i)) (suc i) v (over.shape.shape.in_line (suc i) v) (over.standing (suc i) v)))

pub found_by : (p n : ℕ) (stands : ℕ → ℕ → Bool) (worth : ℕ → ℕ → Worth) (head : ℕ → ℕ) (heads : List ℕ) → ((w : ℕ) → Word n w → head_of heads w ≡ head w) → ((h d : ℕ) → Word n d → h ≤ n → length (worth h d) ≡ p) → Chosen p n stands (rooted worth) head → Finds n stands worth heads
found_by p n stands worth head heads is sized c =
    record {
      places = p;
      sized = λ h d v le t. sized h d v le;
      searched = stands;
      weighed = worth;
      same = record { stand = λ h d v le. refl; weigh = λ h d v le t. refl };
      chosen = record { base = c.base; sets = c.sets; ended = c.ended; heads = λ w v. is w v ∙ c.heads w v };
    }

pub settles_same : {K : Type 0} (f : K → Worth) (ranges : List Range) (n : ℕ) (a b : ℕ → ℕ → Bool) (worth : ℕ → ℕ → Worth) (room : Type 0) (before after : List ℕ) (heads : List ℕ) (r : Result (Option K) Refusal) →
    (room → (h d : ℕ) → Word n d → a h d ≡ b h d) → Searched f ranges n a worth room before after r → Settles ranges n a worth heads r → Settles ranges n b worth heads r
settles_same f ranges n a b worth room before after heads (Err e) same told s = s
settles_same f ranges n a b worth room before after heads (Ok None) same told s = s
settles_same f ranges n a b worth room before after heads (Ok (Some w)) same told s =
    λ entries. let f = s (λ h d v le t. entries h d v le (sym (same told.1 h d v) ∙ t)) in
    record { places = f.places; sized = λ h d v le t. f.sized h d v le (same told.1 h d v ∙ t); searched = f.searched; weighed = f.weighed; same = record { stand = λ h d v le. f.same.stand h d v le ∙ same told.1 h d v; weigh = f.same.weigh }; chosen = f.chosen }

-- a search that saw the sets with one of them written anew, less the barred heads, searched the arcs without those
pub aside_same : {K : Type 0} (f : K → Worth) (ranges : List Range) (n : ℕ) (sets held : List ℕ) (barred rest : ℕ) (worth : ℕ → ℕ → Worth) (room : ℕ → Type 0) (before after : List ℕ) (r : Result (Option K) Refusal) {seen : List ℕ} →
    length held < length sets → ((v : ℕ) → in_set rest v ≡ (in_set (get_or sets (length held) 0) v && not (in_set barred v))) → seen ≡ set sets (length held) rest →
    Searched f ranges n (allowed seen held) worth (room (length seen)) before after r → Settles ranges n (allowed seen held) worth (take n after) r →
    Searched f ranges n (barring (allowed sets held) (length held + 1) barred) worth (room (length sets)) before after r × Settles ranges n (barring (allowed sets held) (length held + 1) barred) worth (take n after) r
aside_same f ranges n sets held barred rest worth room before after r lt is seen told settles =
    let less : List ℕ = set sets (length held) rest in
    let b : ℕ → ℕ → Bool = barring (allowed sets held) (length held + 1) barred in
    let over : List ℕ → ℕ → Type 0 = λ xs k. Searched f ranges n (allowed xs held) worth (room k) before after r in
    let found : over less (length less) = subst (λ (xs : List ℕ). over xs (length xs)) seen told in
    let finds : Settles ranges n (allowed less held) worth (take n after) r = subst (λ (xs : List ℕ). Settles ranges n (allowed xs held) worth (take n after) r) seen settles in
    let arcs : (h d : ℕ) → Word n d → allowed less held h d ≡ b h d = λ h d v. barring_set n sets held barred rest h d lt is v in (
      searched_same f ranges n (allowed less held) b worth (room (length sets)) before after r (λ _. arcs) (subst (over less) (length-set sets (length held) rest) found),
      settles_same f ranges n (allowed less held) b worth (room (length less)) before after (take n after) r (λ _. arcs) found finds,
    )

-- ---- two searches of the same arcs
pub searches_alike : {K : Type 0} (f : K → Worth) (ranges : List Range) → SearchesAlike f ranges
searches_alike f ranges n stands stands' worth worth' same entries heads others None None told s told' s' = tt
searches_alike f ranges n stands stands' worth worth' same entries heads others None (Some b) none s found s' = none others (over_like n stands' stands (λ h d v le. sym (same.stand h d v le)) others found.tree)
searches_alike f ranges n stands stands' worth worth' same entries heads others (Some a) None found s none s' = none heads (over_like n stands stands' same.stand heads found.tree)
searches_alike f ranges n stands stands' worth worth' same entries heads others (Some a) (Some b) told s told' s' =
    let entries' : Entries n stands' ranges worth' =
    λ h d v le t. let u = same.stand h d v le ∙ t in subst (λ (w : Worth). entry_in ranges w ≡ true) (same.weigh h d v le u) (entries h d v le u) in
    let e : heads ≡ others = found_once n stands stands' worth worth' same heads others told.tree.shape.shape.sized told'.tree.shape.shape.sized (s entries) (s' entries') in
    (e, told.weighs ∙ (worth_like n stands worth worth' heads told.tree same.weigh ∙ (ap (worth_from worth' 1) e ∙ sym told'.weighs)))
