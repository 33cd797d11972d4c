use Rattle.std.proofs.Common.{◌≡◌, ℕ, ◌⊎◌, Some, None, Ok, Err, Result, OnOk, OnErr, IfOk, IfErr, IfSome, refl, sym, ap, subst, ◌∙◌, inr}
use Rattle.std.specs.Option.{IsSome, option_map, option_copied_mut}
use Rattle.std.specs.FinMap as fin
use Rattle.std.specs.Ordering.{nat_cmp}
use Rattle.journal_model.specs.Layouts.{homes_after_load}
use Rattle.place_table.specs.declared.refusals.PlaceError.{PlaceError}
use Rattle.place_table.specs.declared.refusals.PlaceError.TheVariants as errors
use Rattle.place_table.specs.Tables.{Placement, with_homes, rehomed, rehomed_at, load_refused}
use Rattle.place_table.proofs.SegmentLaws.{found, was_set, stays}
use Rattle.place_table.proofs.segments.Segments.load.Goals as goal

there : (c : goal.After-self-2-1) → fin.get c.args.self.now c.args.segment ≡ Some c.in-Some.entry.now
there c = ap (λ m. fin.get m c.args.segment) (sym c.self.view_is) ∙ found c.self.inside.by_number.entries c.args.segment ∙ sym c.in-Some.ensures.value

missing : (c : goal.After-self-in_default-2-1) → fin.get c.args.self.now c.args.segment ≡ None
missing c = ap (λ m. fin.get m c.args.segment) (sym c.self.view_is) ∙ found c.self.inside.by_number.entries c.args.segment ∙ sym c.get_mut.ensures.value ∙ ap option_copied_mut c.in_default.is

-- the segments as they are at last, if the entry is
after : (c : goal.After-self-2-1) (p : Placement) → fin.from_entries {R = nat_cmp} (c.get_mut.follows.lender p).entries ≡ fin.insert c.args.self.now c.args.segment p
after c p = was_set c.self.inside.by_number.entries (c.get_mut.follows.lender p).entries c.args.segment p (((c.get_mut.follows.holds p).3 (subst IsSome c.in-Some.ensures.value refl)).0) ∙ ap (λ m. fin.insert m c.args.segment p) c.self.view_is

pub returns-in_default-clause-cause : goal.returns-in_default-clause-cause
returns-in_default-clause-cause c = inr (ap (load_refused c.args.segment c.args.node) (missing c))

pub returns-in_default-clause-refused : goal.returns-in_default-clause-refused
returns-in_default-clause-refused c = let refusal : Result ℕ PlaceError = Err (errors.Gone c.args.segment) in subst (λ o. IfSome (load_refused c.args.segment c.args.node o) (λ e. refusal ≡ Err e)) (sym (missing c)) refl

pub returns-clause-ok : goal.returns-clause-ok
returns-clause-ok c = go c.load.result c.load.ensures.ok
  where
    go : (r : Result ℕ PlaceError) → OnOk r (c.load.new.self ≡ with_homes (homes_after_load c.args.node) c.in-Some.entry.now) → OnOk r (fin.from_entries {R = nat_cmp} (c.get_mut.follows.lender c.load.new.self).entries ≡ rehomed c.args.segment (homes_after_load c.args.node) c.args.self.now)
    go (Ok x) e = after c c.load.new.self ∙ ap (fin.insert c.args.self.now c.args.segment) e ∙ ap (rehomed_at c.args.segment (homes_after_load c.args.node) c.args.self.now) (sym (there c))
    go (Err x) e = tt

pub returns-clause-rows : goal.returns-clause-rows
returns-clause-rows c = go c.load.result c.load.ensures.rows
  where
    go : (r : Result ℕ PlaceError) → IfOk r (λ rows. rows ≡ c.in-Some.entry.now.rows) → IfOk r (λ rows. option_map (λ p. p.rows) (fin.get c.args.self.now c.args.segment) ≡ Some rows)
    go (Ok x) e = ap (option_map (λ (p : Placement). p.rows)) (there c) ∙ ap (λ n. Some n) (sym e)
    go (Err x) e = tt

pub returns-clause-free : goal.returns-clause-free
returns-clause-free c = subst (λ o. OnOk c.load.result (load_refused c.args.segment c.args.node o ≡ None)) (sym (there c)) c.load.ensures.free

pub returns-clause-err : goal.returns-clause-err
returns-clause-err c = go c.load.result c.load.ensures.err
  where
    go : (r : Result ℕ PlaceError) → OnErr r (c.load.new.self ≡ c.in-Some.entry.now) → OnErr r (fin.from_entries {R = nat_cmp} (c.get_mut.follows.lender c.load.new.self).entries ≡ c.args.self.now)
    go (Ok x) e = tt
    go (Err x) e = after c c.load.new.self ∙ ap (fin.insert c.args.self.now c.args.segment) e ∙ stays c.args.self.now c.args.segment c.in-Some.entry.now (there c)

pub returns-clause-cause : goal.returns-clause-cause
returns-clause-cause c = subst (λ o. IfErr c.load.result (λ e. (e ≡ errors.Memory) ⊎ (load_refused c.args.segment c.args.node o ≡ Some e))) (sym (there c)) c.load.ensures.cause

pub returns-clause-refused : goal.returns-clause-refused
returns-clause-refused c = subst (λ o. IfSome (load_refused c.args.segment c.args.node o) (λ e. c.load.result ≡ Err e)) (sym (there c)) c.load.ensures.refused
