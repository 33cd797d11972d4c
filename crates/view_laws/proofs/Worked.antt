-- The worked examples: what is found rises, so it is its own k least.
use Rattle.std.proofs.Common.{◌≡◌, ℕ, pos, true, [], ◌∷◌, take, refl, ap, inl, inr, ◌∙◌, Some, None}
use Rattle.std.proofs.Math.Seq.{take-nil}
use Rattle.std.proofs.lemmas.Cmp.{int_cmp_total}
use Rattle.std.specs.FinMap as fin
use Rattle.std.specs.List.Sorted.{IsStrictlySortedBy}
use Rattle.std.specs.Map.{values_of}
use Rattle.row_types.specs.declared.hits.Hit.{Hit}
use Rattle.row_types.specs.Hits.{hit_cmp, least}
use Rattle.row_types.proofs.Least.{least-of_rising}
use Rattle.log_model.specs.declared.queries.Query.{Query}
use Rattle.log_model.specs.declared.queries.Plan.{Plan}
use Rattle.log_model.specs.Logs.{rows_of, live}
use Rattle.log_model.specs.Scans.{passes_filter, hits_found, scan}
use Rattle.log_model.proofs.Reached.{entries-empty}
use Rattle.journal_model.specs.Layouts.{Channel, layout_of}
use Rattle.journal_model.specs.Lists.{IsIn}
use Rattle.journal_model.specs.Views.{view_of}
use Rattle.view_laws.specs.Found.{found_in}
use Rattle.view_laws.specs.Wholes.{AreOfChannels, whole}
use Rattle.view_laws.specs.Examples.{row, small, by_bits, nearest, hit, channel_of, two_logs, sharing_logs, put, removed}
use Rattle.view_laws.proofs.Members.{least-members}

rises_none : IsStrictlySortedBy hit_cmp []
unfolding IsStrictlySortedBy
rises_none = tt

rises_one : (h : Hit) → IsStrictlySortedBy hit_cmp (h ∷ [])
unfolding IsStrictlySortedBy
rises_one h = (tt, tt)

rises_two : IsStrictlySortedBy hit_cmp (hit 0 2 ∷ hit 1 1 ∷ [])
unfolding IsStrictlySortedBy
rises_two = ((refl, tt), (tt, tt))

least_none : (k : ℕ) → least k [] ≡ []
least_none k = least-of_rising k [] rises_none ∙ take-nil k

-- two hits, one of them twice
least_twice : (k : ℕ) → least k (hit 1 1 ∷ hit 0 2 ∷ hit 0 2 ∷ []) ≡ take k (hit 0 2 ∷ hit 1 1 ∷ [])
least_twice k =
    least-members k (hit 1 1 ∷ hit 0 2 ∷ hit 0 2 ∷ []) (hit 0 2 ∷ hit 1 1 ∷ []) out back ∙ least-of_rising k (hit 0 2 ∷ hit 1 1 ∷ []) rises_two
  where
    out : (q : Hit) → IsIn q (hit 1 1 ∷ hit 0 2 ∷ hit 0 2 ∷ []) → IsIn q (hit 0 2 ∷ hit 1 1 ∷ [])
    out q (inl e) = inr (inl e)
    out q (inr (inl e)) = inl e
    out q (inr (inr (inl e))) = inl e
    out q (inr (inr (inr h))) = absurd h

    back : (q : Hit) → IsIn q (hit 0 2 ∷ hit 1 1 ∷ []) → IsIn q (hit 1 1 ∷ hit 0 2 ∷ hit 0 2 ∷ [])
    back q (inl e) = inr (inl e)
    back q (inr (inl e)) = inl e
    back q (inr (inr h)) = absurd h

least_doubled : (k : ℕ) → least k (hit 0 2 ∷ hit 0 2 ∷ []) ≡ take k (hit 0 2 ∷ [])
least_doubled k =
    least-members k (hit 0 2 ∷ hit 0 2 ∷ []) (hit 0 2 ∷ []) out back ∙ least-of_rising k (hit 0 2 ∷ []) (rises_one (hit 0 2))
  where
    out : (q : Hit) → IsIn q (hit 0 2 ∷ hit 0 2 ∷ []) → IsIn q (hit 0 2 ∷ [])
    out q (inl e) = inl e
    out q (inr h) = h

    back : (q : Hit) → IsIn q (hit 0 2 ∷ []) → IsIn q (hit 0 2 ∷ hit 0 2 ∷ [])
    back q h = inr h

pub empty_view : (channel : Channel) (floor t : ℕ) (plan : Plan) (query : Query) → found_in (view_of channel floor []) t plan query ≡ []
unfolding layout_of
empty_view channel floor t plan query = least_none query.k

pub empty_log : (t : ℕ) (plan : Plan) (query : Query) → scan [] t plan query ≡ []
unfolding scan rows_of
empty_log t plan query = ap (λ es. least query.k (hits_found (passes_filter query.filter) plan query (values_of es))) entries-empty ∙ least_none query.k

pub before_put : found_in small 1 by_bits (nearest 3) ≡ []
before_put = least_none 3

pub at_put : found_in small 2 by_bits (nearest 3) ≡ hit 1 1 ∷ []
at_put = least-of_rising 3 (hit 1 1 ∷ []) (rises_one (hit 1 1))

pub both : found_in small 4 by_bits (nearest 3) ≡ hit 0 2 ∷ hit 1 1 ∷ []
both = least_twice 3

pub nearest_one : found_in small 4 by_bits (nearest 1) ≡ hit 0 2 ∷ []
nearest_one = least_twice 1

pub at_death : found_in small 5 by_bits (nearest 3) ≡ hit 0 2 ∷ []
at_death = least_doubled 3

pub keys : AreOfChannels channel_of two_logs
keys = ((refl, (refl, tt)), ((refl, (refl, tt)), tt))

pub union : whole two_logs ≡ put 2 1 ∷ put 2 2 ∷ put 3 2 ∷ removed 4 1 ∷ []
union = refl

pub shared_here : fin.get (live (put 1 1 ∷ []) 2) (pos 1) ≡ Some (row 1 (true ∷ []))
unfolding rows_of
shared_here = fin.get-insert int_cmp_total fin.empty (pos 1) (row 1 (true ∷ [])) (pos 1)

pub shared_gone : fin.get (live (whole sharing_logs) 2) (pos 1) ≡ None
unfolding rows_of
shared_gone = fin.get-remove int_cmp_total (fin.insert fin.empty (pos 1) (row 1 (true ∷ []))) (pos 1) (pos 1)
