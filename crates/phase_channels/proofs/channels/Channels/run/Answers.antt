use Rattle.std.proofs.Common.{◌≡◌, ℕ, ◌<◌, List, length, map, refl, ap, sym, ◌∙◌, subst, arith}
use Rattle.std.specs.Vec.{with_items}
use Rattle.std.proofs.lemmas.List.{with_items_is}
use Rattle.hybrid_time.specs.declared.times.Timestamp.{Timestamp}
use Rattle.hybrid_time.specs.Times.{of_moment}
use Rattle.turn_facts.specs.Prefixes.{IsAt}
use Rattle.phase_run.specs.declared.works.Stop.TheVariants.{All as Whole}
use Rattle.phase_run.specs.declared.works.Done.{Done}
use Rattle.phase_lines.specs.Waiting.{Read, slot_of, AreHeld, AreWorks}
use Rattle.phase_channels.specs.declared.channels.Channels.{Channels}
use Rattle.phase_channels.specs.Keeping.{kept}
use Rattle.phase_channels.proofs.Lasting.{callers_low}
use Rattle.phase_channels.proofs.Running.{times_before, may_run, all_done, can_append, ran, ran_low}
use Rattle.phase_channels.proofs.channels.Channels.run.Goals as goal

pub run_phase-shards-requires-clause-above : goal.run_phase-shards-requires-clause-above
run_phase-shards-requires-clause-above g c = λ κs within. let known = c.requires.known in times_before known.0 c.args.self known.3.journals known.3.at_rest

pub run_phase-shards-requires-clause-works : goal.run_phase-shards-requires-clause-works
run_phase-shards-requires-clause-works g c = λ κs within.
    let known = c.requires.known in
    let works : AreWorks known.1 known.2 c.args.self.mine.items c.in_ok-slots.works.items = subst (λ (l : List Timestamp). AreWorks known.1 known.2 l c.in_ok-slots.works.items) c.as_slice.ensures.value (c.in_ok-slots.ensures.works known.1 known.2 known.3.held) in
    may_run known.0 known.1 known.2 c.args.self c.args.lines known.3 c.in_ok-slots.works.items works

pub keep_last_writes-requires : goal.keep_last_writes-requires
keep_last_writes-requires g c = λ i did at.
    let known = c.requires.known in
    let all : c.run_phase-shards.result.stop ≡ Whole = all_done c.run_phase-shards.result.stop c.in_default.not-Memory in
    let works : AreWorks known.1 known.2 c.args.self.mine.items c.in_ok-slots.works.items = subst (λ (l : List Timestamp). AreWorks known.1 known.2 l c.in_ok-slots.works.items) c.as_slice.ensures.value (c.in_ok-slots.ensures.works known.1 known.2 known.3.held) in
    let here : IsAt c.run_phase-shards.result.done.items i did = subst (λ (l : List Done). IsAt l i did) c.as_slice-2.ensures.value at in
    let low : did.caller < length c.args.self.mine.items = callers_low known.1 known.2 c.args.self.mine.items known.3.at_rest.many c.in_ok-slots.works.items works c.run_phase-shards.result.done.items (c.run_phase-shards.ensures.answered all).0 i did here in
    subst (λ (l : List Timestamp). did.caller < length l) (sym c.as_mut_slice.ensures.value) low

pub append_lines-requires-clause-known : goal.append_lines-requires-clause-known
append_lines-requires-clause-known g c =
    let known = c.requires.known in
    let all : c.run_phase-shards.result.stop ≡ Whole = all_done c.run_phase-shards.result.stop c.in_default.not-Memory in
    let done = c.run_phase-shards.ensures.answered all in
    let slots_are : (first : ℕ) (reads : List Read) → AreHeld first reads c.args.lines → c.as_slice-3.result.now ≡ map slot_of reads = λ first reads held. c.as_slice-3.ensures.value ∙ c.in_ok-slots.ensures.slots first reads held in
    let works_are : (first : ℕ) (reads : List Read) → AreHeld first reads c.args.lines → AreWorks first reads c.args.self.mine.items c.in_ok-slots.works.items =
    λ first reads held. subst (λ (l : List Timestamp). AreWorks first reads l c.in_ok-slots.works.items) c.as_slice.ensures.value (c.in_ok-slots.ensures.works first reads held) in (
      known.2,
      c.args.self.mine.items,
      c.in_ok-slots.works.items,
      can_append c.args.self c.args.lines c.first_of-first.result c.first_of-first.ensures c.as_slice-3.result.now c.in_ok-slots.works.items slots_are works_are c.run_phase-shards.result.done.items done.0 done.1 known.0 known.1 known.2 known.3,
    )

pub returns-clause-ran : goal.returns-clause-ran
returns-clause-ran g c =
    let all : c.run_phase-shards.result.stop ≡ Whole = all_done c.run_phase-shards.result.stop c.in_default.not-Memory in
    let done = c.run_phase-shards.ensures.answered all in
    let slots_are : (first : ℕ) (reads : List Read) → AreHeld first reads c.args.lines → c.as_slice-3.result.now ≡ map slot_of reads = λ first reads held. c.as_slice-3.ensures.value ∙ c.in_ok-slots.ensures.slots first reads held in
    let works_are : (first : ℕ) (reads : List Read) → AreHeld first reads c.args.lines → AreWorks first reads c.args.self.mine.items c.in_ok-slots.works.items =
    λ first reads held. subst (λ (l : List Timestamp). AreWorks first reads l c.in_ok-slots.works.items) c.as_slice.ensures.value (c.in_ok-slots.ensures.works first reads held) in
    let after : Channels = record { collection = c.args.self.collection; shards = c.run_phase-shards.result.shards; clock = c.run_phase-shards.result.clock; mine = with_items c.args.self.mine c.keep_last_writes.new.mine } in
    let mine : after.mine.items ≡ kept c.args.self.mine.items c.run_phase-shards.result.done.items =
    with_items_is c.args.self.mine c.keep_last_writes.new.mine (omega arith)
    ∙ c.keep_last_writes.ensures ∙ ap (λ (l : List Timestamp). kept l c.as_slice-2.result.now) c.as_mut_slice.ensures.value ∙ ap (λ (l : List Done). kept c.args.self.mine.items l) c.as_slice-2.ensures.value in
    ran c.args.self c.args.lines c.first_of-first.result c.first_of-first.ensures c.as_slice-3.result.now c.in_ok-slots.works.items slots_are works_are c.run_phase-shards.result.done.items done.0 done.1
    (of_moment (g.M.Moments.least c.args.moments.now)) after refl c.run_phase-shards.ensures.bases mine (c.run_phase-shards.ensures.phase all) c.args.text.now.items c.append_lines.new.text.items c.in_ok-append_lines.ensures

pub returns-clause-low : goal.returns-clause-low
returns-clause-low g c =
    let known = c.requires.known in
    let all : c.run_phase-shards.result.stop ≡ Whole = all_done c.run_phase-shards.result.stop c.in_default.not-Memory in
    let done = c.run_phase-shards.ensures.answered all in
    let slots_are : (first : ℕ) (reads : List Read) → AreHeld first reads c.args.lines → c.as_slice-3.result.now ≡ map slot_of reads = λ first reads held. c.as_slice-3.ensures.value ∙ c.in_ok-slots.ensures.slots first reads held in
    let works_are : (first : ℕ) (reads : List Read) → AreHeld first reads c.args.lines → AreWorks first reads c.args.self.mine.items c.in_ok-slots.works.items =
    λ first reads held. subst (λ (l : List Timestamp). AreWorks first reads l c.in_ok-slots.works.items) c.as_slice.ensures.value (c.in_ok-slots.ensures.works first reads held) in
    let after : Channels = record { collection = c.args.self.collection; shards = c.run_phase-shards.result.shards; clock = c.run_phase-shards.result.clock; mine = with_items c.args.self.mine c.keep_last_writes.new.mine } in
    let mine : after.mine.items ≡ kept c.args.self.mine.items c.run_phase-shards.result.done.items =
    with_items_is c.args.self.mine c.keep_last_writes.new.mine (omega arith)
    ∙ c.keep_last_writes.ensures ∙ ap (λ (l : List Timestamp). kept l c.as_slice-2.result.now) c.as_mut_slice.ensures.value ∙ ap (λ (l : List Done). kept c.args.self.mine.items l) c.as_slice-2.ensures.value in
    ran_low c.args.self c.args.lines c.first_of-first.result c.first_of-first.ensures c.as_slice-3.result.now c.in_ok-slots.works.items slots_are works_are c.run_phase-shards.result.done.items done.0 done.1
    (of_moment (g.M.Moments.least c.args.moments.now)) after refl c.run_phase-shards.ensures.bases mine (c.run_phase-shards.ensures.phase all) c.args.text.now.items c.append_lines.new.text.items c.in_ok-append_lines.ensures known.0 known.1 known.2 known.3
