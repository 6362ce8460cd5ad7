-- The claims hold. Assumes nothing.
use mathlib.Core.Path.{sym}
use Rattle.machine.proofs.{Formed.form_holds, Sizes.pages_as_12, Sizes.cells_as_22, Kept.step_sound, Kept.fresh_sound, Apart.others_stay, Apart.only_sizes}
use Rattle.lines.proofs.{Text.read_write, Text.read_unique, Pieces.fed_whole, Hosts.finished_whole}
use Rattle.claims.specs.Claims.{Claims}
use Rattle.claims.proofs.{Sessions.session_is_run, Sessions.replies_run, Script.script_moves, Bound.byte_bound, Reached.bound_reached}
use Rattle.claims.proofs.{Ledger.ledger, AlikeRun.alike, AlikeRun.alike_run, Never.never_unsound, Forms.stays_in_form, Cases.worked_cases}
use Rattle.claims.proofs.Exits.{answer_or_refusal, refusal_leaves, accepted_when_lem, accepted_does}
use Rattle.claims.proofs.{Copies.copy_steps_lem, Spans.span_alone, Spans.span_counted, Spans.refused_writes_none}

-- every claim by its law
pub claims : Claims
claims =
    record {
      answer_or_refusal = answer_or_refusal;
      refusal_leaves = refusal_leaves;
      script_moves = script_moves;
      accepted_when_lem = accepted_when_lem;
      accepted_does = accepted_does;
      copy_steps_lem = copy_steps_lem;
      byte_bound = byte_bound;
      bound_reached = bound_reached;
      span_alone = span_alone;
      span_counted = span_counted;
      refused_writes_none = refused_writes_none;
      ledger = ledger;
      others_stay = others_stay;
      only_sizes = only_sizes;
      alike = alike;
      alike_run = alike_run;
      fresh_sound = fresh_sound;
      stays_sound = step_sound;
      never_unsound = never_unsound;
      row_is_step = λ κs a x s p. p;
      form_holds = λ l e. sym (form_holds l e);
      stays_in_form = stays_in_form;
      pages_as_12 = pages_as_12;
      cells_as_22 = cells_as_22;
      lent_is_step = λ κs a x s p. p;
      session_is_run = session_is_run;
      replies_run = replies_run;
      piece_is_session = λ κs a x s p. p;
      any_cut = fed_whole;
      finished_whole = finished_whole;
      read_write = read_write;
      read_unique = read_unique;
      worked_cases = worked_cases;
    }
