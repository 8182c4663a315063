-- Numbers in pages: one comes, and a page goes.
use Rattle.std.proofs.Common.{◌≡◌, ℕ, ◌+◌, ◌/◌, ◌%◌, ◌<◌, ◌≤◌, inl, inr, min, List, [], ◌∷◌, ◌++◌, length, get_or, set, drop, refl, sym, ap, ◌∙◌, subst, arith, length-drop}
use Rattle.std.proofs.lemmas.Bool.{cases_lt, cases_eq}
use Rattle.std.proofs.lemmas.List.{length-set, length_push, get_or_push, get_or_append_left, get_or-set_same, get_or-set_other, get_or-drop, get_or_default}
use Rattle.sctp_sequence.specs.Pages.{ArePages}

-- a page's number is lowered
record IsLowered (ms ns : List ℕ) (at m : ℕ) : Type 0 where
  long : length ns ≡ length ms
  each : (k d : ℕ) → get_or ns k d ≤ get_or ms k d
  above : (n k d : ℕ) → n ≤ m → n ≤ get_or ms k d → n ≤ get_or ns k d
  here : (d : ℕ) → at < length ns → get_or ns at d ≤ m

stays_lowered : (ls : List ℕ) (at m x : ℕ) → at < length ls → x ≡ get_or ls at x → x ≤ m → IsLowered ls ls at m
stays_lowered ls at m x within read le = record {
  long = refl;
  each = λ k d. omega arith;
  above = λ n k d low is. is;
  here = λ d lt. let same = get_or_default ls at d x within in omega (arith, same, read, le);
}

set_lowered : (ls : List ℕ) (at m x : ℕ) → at < length ls → x ≡ get_or ls at x → m < x → IsLowered ls (set ls at m) at m
set_lowered ls at m x within read lt = record {
  long = length-set ls at m;
  each = λ k d. elim (cases_eq k at) [
    | inl same ↦ let now = is k d same in let before = was k d same in omega (arith, now, before, lt)
    | inr other ↦ let stays = get_or-set_other ls at k m d other in omega (arith, stays)
  ];
  above = λ n k d low le. elim (cases_eq k at) [
    | inl same ↦ let now = is k d same in omega (arith, now, low)
    | inr other ↦ let stays = get_or-set_other ls at k m d other in omega (arith, stays, le)
  ];
  here = λ d long. let now = get_or-set_same ls at m d within in omega (arith, now);
}
  where
    is : (k d : ℕ) → k ≡ at → get_or (set ls at m) k d ≡ m
    is k d same = ap (λ (n : ℕ). get_or (set ls at m) n d) same ∙ get_or-set_same ls at m d within

    was : (k d : ℕ) → k ≡ at → get_or ls k d ≡ x
    was k d same = ap (λ (n : ℕ). get_or ls n d) same ∙ get_or_default ls at d x within ∙ sym read

-- ---- a number comes

-- it begins a page
pub pages_begun : (ms ls : List ℕ) (e m : ℕ) → ArePages ms ls e → length ms % 64 ≡ 0 → ArePages (ms ++ m ∷ []) (ls ++ m ∷ []) (min e m)
pages_begun ms ls e m h begins =
    let many = h.pages.many in
    let long = length_push ms m in
    let pages = length_push ls m in
    let count : length ls ≡ length ms / 64 = omega (arith, many, begins) in
    record {
      pages = record {
        many = omega (arith, many, long, pages, begins);
        least = λ k d lt. elim (cases_lt k (length ms)) [
          | inl within ↦
              let page = get_or_append_left ls (m ∷ []) d (k / 64) (omega (arith, many, within)) in
              omega (arith, page, get_or_append_left ms (m ∷ []) d k within, h.pages.least k d within)
          | inr out ↦
              let here : k ≡ length ms = omega (arith, lt, long, out) in
              let last : k / 64 ≡ length ls = omega (arith, here, count) in
              let page = ap (λ (n : ℕ). get_or (ls ++ m ∷ []) n d) last ∙ get_or_push ls m d (length ls) refl in
              let moment = ap (λ (n : ℕ). get_or (ms ++ m ∷ []) n d) here ∙ get_or_push ms m d (length ms) refl in
              omega (arith, page, moment)
        ];
      };
      first = λ k d lt. elim (cases_lt k (length ls)) [
        | inl within ↦ let page = get_or_append_left ls (m ∷ []) d k within in let was = h.first k d within in omega (arith, page, was)
        | inr out ↦
            let here : k ≡ length ls = omega (arith, lt, pages, out) in
            let page = ap (λ (n : ℕ). get_or (ls ++ m ∷ []) n d) here ∙ get_or_push ls m d (length ls) refl in
            omega (arith, page)
      ];
    }

-- it lies in the last page
pages_entered : (ms ls ks : List ℕ) (e m : ℕ) → ArePages ms ls e → 0 < length ms % 64 → IsLowered ls ks (length ms / 64) m → ArePages (ms ++ m ∷ []) ks (min e m)
pages_entered ms ls ks e m h goes_on page =
    let many = h.pages.many in
    let long = length_push ms m in
    let pages = page.long in
    record {
      pages = record {
        many = omega (arith, many, long, pages, goes_on);
        least = λ k d lt. elim (cases_lt k (length ms)) [
          | inl within ↦
              omega (arith, get_or_append_left ms (m ∷ []) d k within, h.pages.least k d within, page.each (k / 64) d)
          | inr out ↦
              let here : k ≡ length ms = omega (arith, lt, long, out) in
              let low : get_or ks (k / 64) d ≤ m = subst (λ (n : ℕ). get_or ks (n / 64) d ≤ m) (sym here) (page.here d (omega (arith, many, pages, goes_on))) in
              let moment = ap (λ (n : ℕ). get_or (ms ++ m ∷ []) n d) here ∙ get_or_push ms m d (length ms) refl in
              omega (arith, low, moment)
        ];
      };
      first = λ k d lt.
          let was = h.first k d (omega (arith, pages, lt)) in
          page.above (min e m) k d (omega arith) (omega (arith, was));
    }

-- the number of its page is as low
pub pages_under : (ms ls : List ℕ) (e m x : ℕ) → ArePages ms ls e → 0 < length ms % 64 → x ≡ get_or ls (length ms / 64) x → x ≤ m → ArePages (ms ++ m ∷ []) ls e
pages_under ms ls e m x h goes_on read le =
    let many = h.pages.many in
    let page : length ms / 64 < length ls = omega (arith, many, goes_on) in
    let first = h.first (length ms / 64) x page in
    let low : min e m ≡ e = omega (arith, first, read, le) in
    subst (ArePages (ms ++ m ∷ []) ls) low (pages_entered ms ls ls e m h goes_on (stays_lowered ls (length ms / 64) m x page read le))

-- it is lower
pub pages_lower : (ms ls : List ℕ) (e m x : ℕ) → ArePages ms ls e → 0 < length ms % 64 → x ≡ get_or ls (length ms / 64) x → m < x → ArePages (ms ++ m ∷ []) (set ls (length ms / 64) m) (min e m)
pages_lower ms ls e m x h goes_on read lt =
    let many = h.pages.many in
    let page : length ms / 64 < length ls = omega (arith, many, goes_on) in
    pages_entered ms ls (set ls (length ms / 64) m) e m h goes_on (set_lowered ls (length ms / 64) m x page read lt)

-- ---- a page goes

pub pages_dropped : (ms ls : List ℕ) (e : ℕ) → ArePages ms ls e → 64 ≤ length ms → ArePages (drop 64 ms) (drop 1 ls) e
pages_dropped ms ls e h most =
    let many = h.pages.many in
    let long = length-drop 64 ms in
    let pages = length-drop 1 ls in
    record {
      pages = record {
        many = omega (arith, many, long, pages, most);
        least = λ k d lt.
            let next : (64 + k) / 64 ≡ 1 + k / 64 = omega arith in
            let was = h.pages.least (64 + k) d (omega (arith, long, lt, most)) in
            let page = get_or-drop 1 ls (k / 64) d ∙ ap (λ (n : ℕ). get_or ls n d) (sym next) in
            omega (arith, was, page, get_or-drop 64 ms k d);
      };
      first = λ k d lt. let was = h.first (1 + k) d (omega (arith, pages, lt)) in let page = get_or-drop 1 ls k d in omega (arith, was, page);
    }
