-- The bodies are whole programs.
use Rattle.std.proofs.Common.{◌≡◌, ℕ, ◌<◌, Bool, true, false, List, [], ◌∷◌, ◌++◌, length, refl, sym, subst, arith}
use Rattle.std.specs.Prelude.{nat_eq, Contains, All, IsTrue}
use Rattle.std.specs.List.{AllByRecursion, IsDistinct, list_all, list_any}
use Rattle.std.proofs.lemmas.Bool.{eqb-true}
use Rattle.std.proofs.lemmas.List.Sums.{AllPass-from_list_all}
use Rattle.std.proofs.lemmas.Map.Views.{Contains-from_any}
use Rattle.isa.specs.declared.inst.Inst.TheVariants as inst
use Rattle.isa.specs.declared.control.Jump.TheVariants as jump
use Rattle.isa.specs.declared.field.Operand.TheVariants as operand
use Rattle.isa.specs.declared.inst.AluOp.TheVariants as ops
use Rattle.isa.specs.declared.note.NoteKind.{NoteKind}
use Rattle.isa.specs.declared.note.NoteKind.TheVariants.{Return}
use Rattle.isa.specs.declared.program.Item.{Item}
use Rattle.isa.specs.declared.program.Item.TheVariants as item
use Rattle.isa.specs.Note.{is_access}
use Rattle.isa.specs.Program.{labels, used, is_formed, LoopsEndBehind, NotesStand, may_rest, may_aim}
use Rattle.corerun.specs.Items.{placed}
use Rattle.helpers.specs.Bodies.{multiplication, divided_unsigned, rest_unsigned, divided_signed, rest_signed, back, return_field}
use Rattle.helpers.specs.Bodies.{multiplied, divided, quotient_moved, quotient_sign, magnitudes, negated, calculated}
use Rattle.helpers.specs.Shapes.{HasShape}

-- ---- tests

contains : (l : ℕ) (ls : List ℕ) → list_any (nat_eq l) ls ≡ true → Contains ls l
contains l ls h = Contains-from_any {eq = nat_eq} eqb-true l ls h

all_contained : (ls us : List ℕ) → list_all (λ l. list_any (nat_eq l) ls) us ≡ true → All (Contains ls) us
all_contained ls us h = λ k d less. contains _ ls (AllPass-from_list_all (λ l. list_any (nat_eq l) ls) us h k d less)

-- ---- notes: the only one is that of the return

abbrev noteless : Item → Bool
noteless (item.Note k v) = false
noteless _ = true

none_held : (k : NoteKind) → ¬ Contains [] k
none_held k h = let less : h.0 < 0 = h.1 in omega arith

return_stands : (before : List ℕ) → NotesStand before [] back
return_stands before =
    (refl, none_held Return, (AllPass-from_list_all (λ k. may_rest k (inst.Jmp (jump.Field return_field))) (Return ∷ []) refl, refl))

nothing : (P : NoteKind → Type 0) → All P []
nothing P k d less = absurd (omega arith)

notes_stand : (front : List Item) (before : List ℕ) → list_all noteless front ≡ true → NotesStand before [] (front ++ back)
notes_stand [] before h = return_stands before
notes_stand (item.Label l ∷ front) before h = notes_stand front (l ∷ before) h
notes_stand (item.Source n ∷ front) before h = notes_stand front before h
notes_stand (item.Note k v ∷ front) before h = cc
notes_stand (item.Whole i ∷ front) before h = (nothing (λ k. IsTrue (may_rest k i)), notes_stand front before h)
notes_stand (item.Aimed i t ∷ front) before h = (nothing (λ k. IsTrue (may_aim before k i t)), notes_stand front before h)

-- ---- bodies

shape : (front items : List Item) (n : ℕ) → items ≡ front ++ back → list_all is_formed (front ++ back) ≡ true
    → IsDistinct nat_eq (labels (front ++ back))
    → list_all (λ l. list_any (nat_eq l) (labels (front ++ back))) (used (front ++ back)) ≡ true → LoopsEndBehind (front ++ back)
    → list_all noteless front ≡ true → length (placed [] (front ++ back)) ≡ n
    → AllByRecursion (λ x. is_access x.inst ≡ false) (placed [] (front ++ back)) → HasShape n items
shape front items n is formed once there loops notes counted no_access =
    subst (HasShape n) (sym is) (record {
      whole = record {
        formed = AllPass-from_list_all is_formed (front ++ back) formed;
        once = once;
        there = all_contained (labels (front ++ back)) (used (front ++ back)) there;
        loops = loops;
        notes = notes_stand front [] notes;
      };
      counted = counted;
      no_access = no_access;
    })

pub multiplication_shape : (items : List Item) → items ≡ multiplication → HasShape 10 items
unfolding IsDistinct
multiplication_shape items is =
    shape multiplied items 10 is refl
    ((refl, tt), (tt, tt))
    refl (contains 0 (1 ∷ 0 ∷ []) refl, tt) refl refl
    (refl, (refl, (refl, (refl, (refl, (refl, (refl, (refl, (refl, (refl, tt))))))))))

pub quotient_shape : (items : List Item) → items ≡ divided_unsigned → HasShape 14 items
unfolding IsDistinct
quotient_shape items is =
    shape (divided ++ (quotient_moved ∷ [])) items 14 is refl
    ((refl, tt), (tt, tt))
    refl (contains 0 (1 ∷ 0 ∷ []) refl, tt) refl refl
    (refl, (refl, (refl, (refl, (refl, (refl, (refl, (refl, (refl, (refl, (refl, (refl, (refl, (refl, tt))))))))))))))

pub rest_shape : (items : List Item) → items ≡ rest_unsigned → HasShape 13 items
unfolding IsDistinct
rest_shape items is =
    shape divided items 13 is refl
    ((refl, tt), (tt, tt))
    refl (contains 0 (1 ∷ 0 ∷ []) refl, tt) refl refl
    (refl, (refl, (refl, (refl, (refl, (refl, (refl, (refl, (refl, (refl, (refl, (refl, (refl, tt)))))))))))))

pub signed_quotient_shape : (items : List Item) → items ≡ divided_signed → HasShape 27 items
unfolding IsDistinct
signed_quotient_shape items is =
    shape (quotient_sign ++ (magnitudes ++ (divided ++ (quotient_moved ∷ negated 14 19 8 9)))) items 27 is refl (
      (refl, (refl, (refl, (refl, (refl, (refl, (refl, (refl, (refl, tt))))))))),
      (
        (
          refl,
          (
            refl,
            (
              refl,
              (
                refl,
                (
                  refl,
                  (
                    refl,
                    (refl, (refl, tt)),
                  ),
                ),
              ),
            ),
          ),
        ),
        (
          (refl, (refl, (refl, (refl, (refl, (refl, (refl, tt))))))),
          (
            (
              refl,
              (
                refl,
                (
                  refl,
                  (
                    refl,
                    (
                      refl,
                      (refl, tt),
                    ),
                  ),
                ),
              ),
            ),
            (
              (refl, (refl, (refl, (refl, (refl, tt))))),
              (
                (refl, (refl, (refl, (refl, tt)))),
                (
                  (
                    refl,
                    (
                      refl,
                      (
                        refl,
                        tt,
                      ),
                    ),
                  ),
                  ((refl, (refl, tt)), ((refl, tt), (tt, tt))),
                ),
              ),
            ),
          ),
        ),
      ),
    )
    refl (contains 0 (1 ∷ 0 ∷ 8 ∷ 9 ∷ []) refl, tt) refl refl (
      refl,
      (
        refl,
        (
          refl,
          (
            refl,
            (
              refl,
              (
                refl,
                (
                  refl,
                  (
                    refl,
                    (
                      refl,
                      (
                        refl,
                        (
                          refl,
                          (
                            refl,
                            (
                              refl,
                              (
                                refl,
                                (
                                  refl,
                                  (
                                    refl,
                                    (
                                      refl,
                                      (refl, (refl, (refl, (refl, (refl, (refl, (refl, (refl, (refl, (refl, tt)))))))))),
                                    ),
                                  ),
                                ),
                              ),
                            ),
                          ),
                        ),
                      ),
                    ),
                  ),
                ),
              ),
            ),
          ),
        ),
      ),
    )

pub signed_rest_shape : (items : List Item) → items ≡ rest_signed → HasShape 23 items
unfolding IsDistinct
signed_rest_shape items is =
    shape (calculated ops.Add 19 14 (operand.Imm 0) ∷ (magnitudes ++ (divided ++ negated 14 19 8 9))) items 23 is refl (
      (refl, (refl, (refl, (refl, (refl, (refl, (refl, tt))))))),
      (
        (refl, (refl, (refl, (refl, (refl, (refl, tt)))))),
        (
          (
            refl,
            (refl, (refl, (refl, (refl, tt)))),
          ),
          (
            (refl, (refl, (refl, (refl, tt)))),
            (
              (refl, (refl, (refl, tt))),
              (
                (
                  refl,
                  (
                    refl,
                    tt,
                  ),
                ),
                ((refl, tt), (tt, tt)),
              ),
            ),
          ),
        ),
      ),
    )
    refl (contains 0 (1 ∷ 0 ∷ 8 ∷ 9 ∷ []) refl, tt) refl refl (
      refl,
      (
        refl,
        (
          refl,
          (
            refl,
            (
              refl,
              (
                refl,
                (
                  refl,
                  (
                    refl,
                    (
                      refl,
                      (
                        refl,
                        (
                          refl,
                          (
                            refl,
                            (
                              refl,
                              (
                                refl,
                                (
                                  refl,
                                  (
                                    refl,
                                    (
                                      refl,
                                      (refl, (refl, (refl, (refl, (refl, (refl, tt)))))),
                                    ),
                                  ),
                                ),
                              ),
                            ),
                          ),
                        ),
                      ),
                    ),
                  ),
                ),
              ),
            ),
          ),
        ),
      ),
    )
