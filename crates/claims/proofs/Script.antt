-- The script after every operation, accepted or refused. Assumes nothing.
use Rattle.types.proofs.Prelude.{sym, ap, ◌∙◌, pick_true, both_1, both_2, either}
use Rattle.std.specs.Prelude.{ℕ, ◌≡◌, true}
use Rattle.types.specs.Names.{Limiter}
use Rattle.machine.specs.Names.{Buffers, sound_over, well_formed, Stepped, step, Machine, Operation}
use Rattle.claims.specs.{Answers.accepted, Occasions.checks, Occasions.occasion, Effects.asked, Effects.accepted_step, Script.replaced, Script.script_after}
use Rattle.claims.proofs.{Checks.grant_of_lem, Exiting.branch, Exits.refusal_script, Exits.accepted_when_lem, Exits.accepted_does}
use Rattle.claims.proofs.Heard.{onward, refused_leaves, no_question, heard_done, moved_once}

-- an accepted operation on a sound machine moves it by its one question, if it comes to that
accepted_script : (r : ℕ) (m : Machine) (b : Buffers) (op : Operation) → sound_over m b ≡ true → well_formed op ≡ true → occasion r m b op ≡ true
    → accepted (step r m b op).answer ≡ true → asked r m b op ≡ onward r m b op
accepted_script r m b op s w o a =
    branch (λ (l : Limiter). l ≡ onward r m b op) _ _ _
    (λ q. moved_once r m b op (heard_done r m b op s w q (grant_of_lem _ (checks r m b op) o q) a))
    (λ q. no_question r m b op q)

-- the script after any operation on any machine
pub script_moves : (r : ℕ) (m : Machine) (b : Buffers) (op : Operation) → (step r m b op).machine.limiter ≡ script_after r m b op
unfolding script_after accepted_step
script_moves r m b op =
    either (accepted (step r m b op).answer)
    (λ a.
    let w = sym (accepted_when_lem r m b op) ∙ a in
    let s = both_2 _ _ w in
    ap (λ (x : Stepped). x.machine.limiter) (accepted_does r m b op a)
    ∙ ap (λ (l : Limiter). replaced r m b l op) (accepted_script r m b op (both_1 _ _ s) (both_1 _ _ w) (both_2 _ _ s) a) ∙ sym (pick_true _ _ _ a))
    (λ n. refusal_script r m b op n ∙ sym (refused_leaves r m b op n))
