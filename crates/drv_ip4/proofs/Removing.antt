-- The removal of several routes.
use Rattle.std.proofs.Common.{◌≡◌, ℕ, ◌+◌, ◌<◌, List, ◌∷◌, length, drop, get_or, Some, slice_get, sym, ap, ◌∙◌}
use Rattle.std.proofs.lemmas.List.{drop_more}
use Rattle.std.proofs.lemmas.Option.{slice_get_within, get_or_from_slice_get}
use Rattle.ip_core.specs.Routing.{without}
use Rattle.ip_core.specs.declared.routes.Route.{Route}
use Rattle.drv_ip4.specs.Nets.{all_without}

pub drop-at : {X : Type 0} (xs : List X) (k : ℕ) (x : X) → slice_get xs k ≡ Some x → drop k xs ≡ x ∷ drop (k + 1) xs
drop-at xs k x h = drop_more xs k x (slice_get_within xs k x h) ∙ ap (λ y. y ∷ drop (k + 1) xs) (get_or_from_slice_get xs k x x h)

-- the route at this place goes, and then those behind it
pub one-gone : (gone : List Route) (k : ℕ) (r : Route) (routes : List Route) → k < length gone
    → all_without (drop (k + 1) gone) (without (get_or gone k r) routes) ≡ all_without (drop k gone) routes
one-gone gone k r routes h = ap (λ rs. all_without rs routes) (sym (drop_more gone k r h))
