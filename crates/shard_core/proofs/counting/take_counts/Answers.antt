use Rattle.std.proofs.Common.{◌≡◌, ℕ, ◌≤◌, ◌^◌, length, sym, ap, ◌∙◌, arith}
use Rattle.journal_model.specs.Counts.{counts_of}
use Rattle.channel_journal.specs.Notes.{ChannelJournal}
use Rattle.shard_core.proofs.CountLaws.{shown_counts}
use Rattle.shard_core.proofs.PendingLaws.{with_pending, shown_pending, counts_pending, pieces_few, pending_fits}
use Rattle.shard_core.proofs.counting.take_counts.Goals as goal

few_notes : (j : ChannelJournal) (n : ℕ) → n ≡ length j.state.notes → n ≤ 2 ^ 56 → length j.state.notes ≤ 2 ^ 56
few_notes j n e lt = omega arith

pub counts-pieces-requires-clause-few : goal.counts-pieces-requires-clause-few
counts-pieces-requires-clause-few c = pieces_few c.args.journal.now c.args.lagging.now c.requires.behind c.requires.deaths c.len.ensures.sound (few_notes c.args.journal.now c.len.result c.len.ensures.len c.len.ensures.few)

pub counts-pieces-requires-clause-fits : goal.counts-pieces-requires-clause-fits
counts-pieces-requires-clause-fits c = pending_fits c.args.journal.now c.args.lagging.now c.requires.behind c.requires.deaths c.len.ensures.sound (few_notes c.args.journal.now c.len.result c.len.ensures.len c.len.ensures.few)

pub returns : goal.returns
returns c =
    let j = c.args.journal.now in
    let l = c.args.lagging.now in
    shown_counts j.channel j.state.notes (with_pending j.state.notes l) (shown_pending j l c.requires.behind c.requires.deaths) c.counts-pieces.result c.live.result (c.counts-pieces.ensures ∙ sym (counts_pending j l c.requires.behind c.requires.deaths))
    ∙ ap (λ n. record (counts_of j.channel j.state.notes) { live = n }) c.live.ensures.live
