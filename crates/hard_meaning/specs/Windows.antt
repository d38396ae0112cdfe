-- The windows in which an upset can't be found, as the model of upsets defines them.
pub use Rattle.upset_model.specs.Windows.{same_side, same_reg, is_reg, is_among, checks, is_between, is_effect, uses, is_copy, copies, checked_before, used_next, copied_next, is_window, in_window, is_one_bit_width, is_one_bit_step, is_one_bit, first_compared, assigns_on, arm_of, phi_value, is_number, is_register, compares_in, checks_direction, target_checks, is_guarded, last_guarded, is_edge_checked}
