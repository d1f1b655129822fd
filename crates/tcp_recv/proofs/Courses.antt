-- A receiver stands for each list of cuts and takes, one step after the other.
use Rattle.std.proofs.Common.{◌≡◌, ℕ, ◌+◌, ◌^◌, ◌<◌, ◌==◌, false, List, [], ◌∷◌, ◌++◌, length, fold, Option, Some, None, refl, sym, ap, subst, ◌∙◌}
use Rattle.std.proofs.lemmas.List.{append_assoc}
use Rattle.std.proofs.lemmas.List.Sums.{fold-append}
use Rattle.std.specs.List.{AllByRecursion}
use Rattle.std.specs.Option.{option_map_or}
use Rattle.tcp_recv.specs.Peer.{IsFrontOf}
use Rattle.tcp_recv.specs.Receiver.{Receiver, Stands, accepted_of, ends_at, fresh, is_ended, untaken}
use Rattle.tcp_recv.specs.Steps.{Course, IsStepOf, StandsFor, Step, after_step, course_of, start}
use Rattle.tcp_recv.specs.Steps.Step.{hears, takes}
use Rattle.tcp_recv.specs.Stream.{Board, Cut, after_cut, front, is_over}
use Rattle.tcp_recv.proofs.Peers.{IsOf, after-one, of-front}
use Rattle.tcp_recv.proofs.Standing.{accepted-stands, stands-front}

-- one step more
course-next : (irs cap : ℕ) (steps : List Step) (s : Step) → course_of irs cap (steps ++ s ∷ []) ≡ after_step irs cap (course_of irs cap steps) s
course-next irs cap steps s = fold-append (after_step irs cap) start steps (s ∷ [])

pub stands-start : (irs room cap : ℕ) → StandsFor [] [] (fresh irs room cap)
stands-start irs room cap = record { stands = record { count = refl; kept = refl; end = refl }; taken = refl }

-- a receiver of the same numbers that stands for one step more
stands-step : (steps : List Step) (s : Step) (given : List ℕ) (r now : Receiver) → now.irs ≡ r.irs → now.cap ≡ r.cap
    → Stands (after_step r.irs r.cap (course_of r.irs r.cap steps) s).board given now
    → now.taken ≡ (after_step r.irs r.cap (course_of r.irs r.cap steps) s).taken → StandsFor (steps ++ s ∷ []) given now
stands-step steps s given r now i k stands taken =
    let next : course_of now.irs now.cap (steps ++ s ∷ []) ≡ after_step r.irs r.cap (course_of r.irs r.cap steps) s =
    ap (λ n. course_of n now.cap (steps ++ s ∷ [])) i ∙ ap (λ n. course_of r.irs n (steps ++ s ∷ [])) k ∙ course-next r.irs r.cap steps s in
    record {
      stands = subst (λ (c : Course). Stands c.board given now) (sym next) stands;
      taken = taken ∙ sym (ap (λ (c : Course). c.taken) next);
    }

-- a cut is heard
pub stands-heard : (steps : List Step) (given : List ℕ) (r now : Receiver) (cut : Cut) → StandsFor steps given r → now.irs ≡ r.irs → now.cap ≡ r.cap
    → now.taken ≡ r.taken → ((board : Board) → (given : List ℕ) → Stands board given r → Stands (after_cut r.irs r.cap r.taken board cut) given now)
    → StandsFor (steps ++ hears cut ∷ []) given now
stands-heard steps given r now cut s i k t carries =
    let board = (course_of r.irs r.cap steps).board in
    stands-step steps (hears cut) given r now i k
    (subst (λ n. Stands (after_cut r.irs r.cap n board cut) given now) s.taken (carries board given s.stands))
    (t ∙ s.taken)

-- bytes are taken
pub stands-taken : (steps : List Step) (given more : List ℕ) (r now : Receiver) (n : ℕ) → StandsFor steps given r → now.irs ≡ r.irs → now.cap ≡ r.cap
    → now.taken ≡ r.taken + n → ((board : Board) → (given : List ℕ) → Stands board given r → Stands board (given ++ more) now)
    → StandsFor (steps ++ takes n ∷ []) (given ++ more) now
stands-taken steps given more r now n s i k t carries =
    stands-step steps (takes n) (given ++ more) r now i k (carries (course_of r.irs r.cap steps).board given s.stands) (t ∙ ap (λ x. x + n) s.taken)

-- a cut is heard, and bytes are taken at once
pub stands-passed : (steps : List Step) (given more : List ℕ) (r now : Receiver) (cut : Cut) (n : ℕ) → StandsFor steps given r → now.irs ≡ r.irs → now.cap ≡ r.cap
    → now.taken ≡ r.taken + n → ((board : Board) → (given : List ℕ) → Stands board given r → Stands (after_cut r.irs r.cap r.taken board cut) (given ++ more) now)
    → StandsFor (steps ++ hears cut ∷ takes n ∷ []) (given ++ more) now
stands-passed steps given more r now cut n s i k t carries =
    let c = course_of r.irs r.cap steps in
    let all : steps ++ hears cut ∷ takes n ∷ [] ≡ (steps ++ hears cut ∷ []) ++ takes n ∷ [] = sym (append_assoc steps (hears cut ∷ []) (takes n ∷ [])) in
    let next : course_of now.irs now.cap ((steps ++ hears cut ∷ []) ++ takes n ∷ []) ≡ after_step r.irs r.cap (after_step r.irs r.cap c (hears cut)) (takes n) =
    ap (λ x. course_of x now.cap ((steps ++ hears cut ∷ []) ++ takes n ∷ [])) i ∙ ap (λ x. course_of r.irs x ((steps ++ hears cut ∷ []) ++ takes n ∷ [])) k
    ∙ course-next r.irs r.cap (steps ++ hears cut ∷ []) (takes n) ∙ ap (λ x. after_step r.irs r.cap x (takes n)) (course-next r.irs r.cap steps (hears cut)) in
    subst (λ l. StandsFor l (given ++ more) now) (sym all)
    (record {
      stands = subst (λ (x : Course). Stands x.board (given ++ more) now) (sym next)
          (subst (λ m. Stands (after_cut r.irs r.cap m c.board cut) (given ++ more) now) s.taken (carries c.board given s.stands));
      taken = t ∙ ap (λ x. x + n) s.taken ∙ sym (ap (λ (x : Course). x.taken) next);
    })

-- ---- what it tells

pub tells-given : (steps : List Step) (given : List ℕ) (r : Receiver) → StandsFor steps given r
    → front (course_of r.irs r.cap steps).board.kept ≡ given ++ untaken r
tells-given steps given r s = stands-front (course_of r.irs r.cap steps).board given r s.stands

pub tells-accepted : (steps : List Step) (given : List ℕ) (r : Receiver) → StandsFor steps given r
    → accepted_of r ≡ length (front (course_of r.irs r.cap steps).board.kept)
tells-accepted steps given r s = sym (accepted-stands (course_of r.irs r.cap steps).board given r s.stands)

ends-over : (place : ℕ) (end : Option ℕ) → ends_at place end ≡ option_map_or (λ e. e == place) end false
ends-over place None = refl
ends-over place (Some e) = refl

pub tells-ended : (steps : List Step) (given : List ℕ) (r : Receiver) → StandsFor steps given r → is_ended r ≡ is_over (course_of r.irs r.cap steps).board
tells-ended steps given r s =
    let board = (course_of r.irs r.cap steps).board in
    ap (λ n. ends_at n r.end) (tells-accepted steps given r s) ∙ ap (ends_at (length (front board.kept))) (sym s.stands.end)
    ∙ ends-over (length (front board.kept)) board.end

-- ---- what an honest peer's stream makes of it

steps-of : (irs cap : ℕ) (stream : List ℕ) (steps : List Step) (c : Course) → length stream < 2 ^ 31 → IsOf stream c.board
    → AllByRecursion (IsStepOf irs stream) steps → IsOf stream (fold (after_step irs cap) c steps).board
steps-of irs cap stream [] c h b p = b
steps-of irs cap stream (hears cut ∷ steps) c h b p =
    steps-of irs cap stream steps (after_step irs cap c (hears cut)) h (after-one irs cap c.taken stream c.board cut h b p.0) p.1
steps-of irs cap stream (takes n ∷ steps) c h b p = steps-of irs cap stream steps (after_step irs cap c (takes n)) h b p.1

pub steps-front : (irs cap : ℕ) (stream : List ℕ) (steps : List Step) → length stream < 2 ^ 31
    → AllByRecursion (IsStepOf irs stream) steps → IsFrontOf stream (course_of irs cap steps).board
steps-front irs cap stream steps h p = of-front stream _ (steps-of irs cap stream steps start h (tt, tt) p)
