-- Bytes given out one after another.
use Rattle.std.proofs.Common.{◌≡◌, ◌≢◌, ℕ, ◌+◌, ◌-◌, ◌<◌, ◌≤◌, List, [], ◌∷◌, ◌++◌, length, get_or, arith, refl, sym, ap, ◌∙◌, subst, length-append, append_assoc, append-nil, ⊎_elim, Bool, true, false}
use Rattle.std.specs.Prelude.{Option, not, ◌||◌}
use Rattle.std.proofs.KnownBytes.{Consumes-nil, Consumes-trans}
use Rattle.std.proofs.lemmas.Bool.{cases_lt}
use Rattle.std.proofs.Math.ListN.{get_or-append}
use Rattle.std.proofs.Math.Seq.{get_or-append_right, get_or-append_seam}
use Rattle.cert_reader.specs.declared.ends.TextEnd.{TextEnd}
use Rattle.cert_reader.specs.declared.limits.TheConstants.{LONGEST_LINE}
use Rattle.cert_reader.specs.Stream.{Hands, Held, IsFrontKept, IsPlain, IsStopAt, IsStopped, taken_count}

-- nothing was given out
pub hands_none : (a b : Held) (left : Option (List ℕ)) → b.ahead ≡ a.ahead → b.given ≡ a.given → Hands a b left left []
hands_none a b left ahead given = record { more = []; took = Consumes-nil left; seam = append-nil a.ahead ∙ sym ahead; given = given ∙ (let e : a.given ≡ a.given + 0 = omega arith in e) }

-- bytes after others
pub hands_trans : (a b c : Held) (x y z : Option (List ℕ)) (first second : List ℕ) → Hands a b x y first → Hands b c y z second → Hands a c x z (first ++ second)
hands_trans a b c x y z first second p q = record {
  more = p.more ++ q.more;
  took = Consumes-trans x y z p.more q.more p.took q.took;
  seam = sym (append_assoc a.ahead p.more q.more) ∙ ap (λ xs. xs ++ q.more) p.seam ∙ append_assoc first b.ahead q.more ∙ ap (λ xs. first ++ xs) q.seam ∙ sym (append_assoc first second c.ahead);
  given = (let e = p.given in let f = q.given in omega (arith, e, f, length-append first second));
}

-- the reading stops after bytes that were given out
pub stops_after : (a b : Held) (x y z : Option (List ℕ)) (handed : List ℕ) (stop : TextEnd) → Hands a b x y handed → IsStopped b y z stop → IsStopped a x z stop
stops_after a b x y z handed stop p (more, took, at) = (p.more ++ more, Consumes-trans x y z p.more more p.took took, subst (IsStopAt stop) same at)
  where
    same : taken_count b + length more ≡ taken_count a + length (p.more ++ more)
    same =
        let given = p.given in
        let both : length a.ahead + length p.more ≡ length handed + length b.ahead = sym (length-append a.ahead p.more) ∙ ap length p.seam ∙ length-append handed b.ahead in
        let all : length (p.more ++ more) ≡ length p.more + length more = length-append p.more more in
        omega (arith, given, both, all)

-- one more byte of a line
pub plain_more : (text : List ℕ) (b : ℕ) → IsPlain text → b ≢ 10 → IsPlain (text ++ b ∷ [])
plain_more text b h other = record {
  none = λ k l e. ⊎_elim
      (λ (a : k < length text). h.none k a (sym (get_or-append text (b ∷ []) 0 k a) ∙ e))
      (λ (d : length text ≤ k).
      let is : k ≡ length text = omega (arith, length-append text (b ∷ [])) in
      other (sym (get_or-append_seam text b [] 0) ∙ ap (λ i. get_or (text ++ b ∷ []) i 0) (sym is) ∙ e))
      (cases_lt k (length text));
}

-- a line for which there is no more room is longer than any
pub over_more : (long : Bool) (line text : List ℕ) (b : ℕ) → (long ≡ false → line ≡ text) → (long ≡ true → LONGEST_LINE < length text) → LONGEST_LINE ≤ length line → LONGEST_LINE < length (text ++ b ∷ [])
over_more true line text b kept over full = let high = over refl in omega (arith, length-append text (b ∷ []))
over_more false line text b kept over full = let same = ap length (kept refl) in omega (arith, length-append text (b ∷ []))

-- what holds of a reader holds of one that holds the same bytes
pub hands_same : (a b c : Held) (x y : Option (List ℕ)) (handed : List ℕ) → Hands a b x y handed → c.ahead ≡ b.ahead → c.given ≡ b.given → Hands a c x y handed
hands_same a b c x y handed p ahead given = record { more = p.more; took = p.took; seam = p.seam ∙ ap (λ xs. handed ++ xs) (sym ahead); given = given ∙ p.given }

-- a byte given out and kept after the line
pub kept_more : (a b c d : Held) (x y z : Option (List ℕ)) (text : List ℕ) (byte : ℕ) → Hands a b x y text → Hands b c y z (byte ∷ []) → d.ahead ≡ c.ahead → d.given ≡ c.given → Hands a d x z (text ++ byte ∷ [])
kept_more a b c d x y z text byte p q ahead given = hands_same a c d x z (text ++ byte ∷ []) (hands_trans a b c x y z text (byte ∷ []) p q) ahead given

-- and of one that has forgotten its line
pub hands_from : (a b c : Held) (x y : Option (List ℕ)) (handed : List ℕ) → b ≡ record { ahead = a.ahead; given = a.given; line = [] } → Hands b c x y handed → Hands a c x y handed
hands_from a b c x y handed e p = record {
  more = p.more;
  took = p.took;
  seam = ap (λ held. held.ahead ++ p.more) (sym e) ∙ p.seam;
  given = p.given ∙ ap (λ held. held.given + length handed) e;
}

-- a line after which its LF was given out
pub line_handed : (a b c : Held) (x y z : Option (List ℕ)) (text : List ℕ) → IsPlain text → Hands a b x y text → Hands b c y z (10 ∷ []) → c.line ≡ text → IsPlain c.line × Hands a c x z (c.line ++ 10 ∷ [])
line_handed a b c x y z text plain p q is = (subst IsPlain (sym is) plain, subst (λ line. Hands a c x z (line ++ 10 ∷ [])) (sym is) (hands_trans a b c x y z text (10 ∷ []) p q))

-- a line as far as it was given out: its text, and what of it is kept
pub record KeptSoFar (a b : Held) (x y : Option (List ℕ)) (long : Bool) (text : List ℕ) : Type 0 where
  pub plain : IsPlain text
  pub handed : Hands a b x y text
  pub kept : long ≡ false → b.line ≡ text
  pub over : long ≡ true → LONGEST_LINE < length text

-- two plain texts one after another
plain_both : (text front : List ℕ) → IsPlain text → IsPlain front → IsPlain (text ++ front)
plain_both text front h f = record {
  none = λ k l e. ⊎_elim
      (λ (a : k < length text). h.none k a (sym (get_or-append text front 0 k a) ∙ e))
      (λ (d : length text ≤ k). f.none (k - length text) (omega (arith, length-append text front)) (sym (get_or-append_right text front k 0 d) ∙ e))
      (cases_lt k (length text));
}

-- the front of what is held was given out after that text
front_handed : (a b c : Held) (x y : Option (List ℕ)) (kept : Bool) (text : List ℕ) → Hands a b x y text → (f : IsFrontKept b c kept) → Hands a c x y (text ++ f.front)
front_handed a b c x y kept text p f = hands_trans a b c x y y text f.front p (record { more = []; took = Consumes-nil y; seam = append-nil b.ahead ∙ f.seam; given = f.given })

-- and the line is kept with it, or is longer than any
pub front_kept : (a b c : Held) (x y : Option (List ℕ)) (long kept : Bool) (text : List ℕ) → KeptSoFar a b x y long text → (f : IsFrontKept b c kept) → KeptSoFar a c x y (long || not kept) (text ++ f.front)
front_kept a b c x y true kept text h f = record {
  plain = plain_both text f.front h.plain f.plain;
  handed = front_handed a b c x y kept text h.handed f;
  kept = λ e. absurd (cc);
  over = λ e. (let over = h.over refl in omega (arith, length-append text f.front));
}
front_kept a b c x y false true text h f = record {
  plain = plain_both text f.front h.plain f.plain;
  handed = front_handed a b c x y true text h.handed f;
  kept = λ e. f.line ∙ ap (λ xs. xs ++ f.front) (h.kept refl);
  over = λ e. absurd (cc);
}
front_kept a b c x y false false text h f = record {
  plain = plain_both text f.front h.plain f.plain;
  handed = front_handed a b c x y false text h.handed f;
  kept = λ e. absurd (cc);
  over = λ e. (let same = ap length (h.kept refl) in let more = f.line.1 in omega (arith, length-append text f.front));
}
